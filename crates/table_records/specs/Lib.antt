-- What the tables share: tests of every number below a bound, bytes compared, records of one width, the first that fits. To be read in this order.
pub mod Below
pub mod Bytes
pub mod Records
pub mod Search
-- What begins with Working serves the proofs alone: nothing there has to be believed.
pub mod Working
