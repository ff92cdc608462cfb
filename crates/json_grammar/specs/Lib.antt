-- To be read beside the RFCs: languages put together as ABNF does it, UTF-8 by RFC 3629, and JSON by RFC 7159.
pub mod Language
pub mod Utf8
pub mod Json
pub mod Places
