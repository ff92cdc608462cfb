-- What a buyer has to believe of one broker's step. To be read beside paper 01, in this order: the rules, each as an "exactly when", and that the step
-- call follows them.
pub mod Rules
pub mod Steps
