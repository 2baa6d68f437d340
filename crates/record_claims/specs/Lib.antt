pub mod Results
pub mod Reports
