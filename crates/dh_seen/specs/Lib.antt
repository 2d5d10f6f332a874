pub mod SeenProject
