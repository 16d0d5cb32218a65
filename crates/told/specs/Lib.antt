pub mod Numbers
pub mod RecordCalls
