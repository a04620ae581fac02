pub mod Scripted
pub mod ScriptedReader
