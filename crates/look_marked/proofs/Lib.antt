pub mod MarkedMore
pub mod MarkedFaults
