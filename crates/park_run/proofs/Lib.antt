-- The laws of a job run afresh.
pub mod Runs
pub mod Answers
