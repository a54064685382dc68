pub mod DepthMonotone
