pub mod Faults
pub mod MemSink
pub mod MemSource
pub mod Sink
pub mod Source
pub mod StdEdge
pub mod Told
