pub mod Vars
