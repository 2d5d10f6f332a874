pub mod Words
pub mod Apps
