pub mod EachOnce
pub mod Shape
pub mod Each
pub mod JobWork
pub mod NoteLengths
pub mod WhatActs
pub mod ActKinds
