mod Answered
mod Blaming
mod Ends
mod FaultyBytes
mod JobKinds
mod Ran
mod ScheduleLemmas
mod VerdictLemmas
