pub mod Agreeing
