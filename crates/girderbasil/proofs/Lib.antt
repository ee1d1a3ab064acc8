-- The laws about answers that cross to a host.
pub mod HostAnswers
