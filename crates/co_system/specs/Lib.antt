pub mod Systems
pub mod Legal
