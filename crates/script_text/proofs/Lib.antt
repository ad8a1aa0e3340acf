pub mod LineCuts
pub mod PrintableLines
pub mod TokenCuts
pub mod Spacing
pub mod NumberSteps
pub mod ReaderSteps
pub mod PlacesAsked
pub mod SoundForms
pub mod SoundLists
pub mod SoundSteps
pub mod SoundRequests
pub mod Underway
pub mod Refusals
pub mod SoundScripts
pub mod FirstBytes
pub mod Truncated
pub mod DecimalNumbers
pub mod Spellings
pub mod OpenBlocks
pub mod SpelledLines
pub mod AcceptedForms
pub mod AcceptedActs
pub mod WholeLines
pub mod WorkerOrders
pub mod Numbered
pub mod GeneratedSteps
pub mod SoundTrials
pub mod FirstOffence
pub mod LawfulHistories
mod UnlawfulHistories
mod AtTheBounds
mod MatchedBlocks
mod LayerLines
mod NamedLayouts
