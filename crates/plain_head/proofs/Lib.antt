-- The laws of heads; they are for whoever writes commands too.
pub mod Heads
