pub mod Payloads
pub mod Grades
pub mod Walk
pub mod CoreNamed
pub mod CoreReplay
pub mod CoreLaws
pub mod Passing
pub mod CoreExamples
