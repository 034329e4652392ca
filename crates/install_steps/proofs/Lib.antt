pub mod SlotsApart
pub mod ActsDone
pub mod BookNoted
pub mod DoneSteps
pub mod EndsNoted
pub mod NamesMarked
pub mod SlotsSettled
pub mod StepsSteady
