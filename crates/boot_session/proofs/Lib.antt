mod Listing
mod Telling
