pub mod DirectRun
