pub mod Analysis
