pub mod Direct
pub mod DirectRun
