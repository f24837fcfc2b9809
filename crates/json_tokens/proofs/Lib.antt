pub mod CutHistories
pub mod Elements
pub mod FewDigits
pub mod Gathering
pub mod NumberTokens
pub mod Values
pub mod WholeNumbers
