-- The brokers' identities, as paper 01 has them under "The floor's tables".
pub mod Identities
