pub mod RouteWords
