mod Classes
mod Groups
mod Lacking
mod Passed
