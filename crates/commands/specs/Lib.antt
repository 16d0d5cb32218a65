pub mod Text
pub mod Commands
pub mod Labels
pub mod Numbers
