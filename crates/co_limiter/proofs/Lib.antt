pub mod PackedBucketLemmas
pub mod BucketSums
pub mod PackedRouteLemmas
pub mod Places
pub mod Prefixes
pub mod LimiterExamples
pub mod LimitedHistories
