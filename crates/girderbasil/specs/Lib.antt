-- What an answer that crosses to a host says.
pub mod Host
