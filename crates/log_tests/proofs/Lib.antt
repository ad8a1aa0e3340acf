pub mod BadgeLemmas
