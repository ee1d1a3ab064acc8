-- The definition that the promise about an answer's row cites.
pub mod AnswerRow
