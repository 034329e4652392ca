mod Opened
mod Telling
