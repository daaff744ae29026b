pub mod Sessions
pub mod Runs
pub mod LeadingPayments
