pub mod PlayerRuns
