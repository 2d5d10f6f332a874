-- What one call of a port does.
pub use Rattle.dh_ports.specs.Ports.{put_stops, CountsUpTo, CountsAtLeast}
