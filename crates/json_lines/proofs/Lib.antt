pub mod LineLaws
pub mod FeedLaws
pub mod FeedingLaws
pub mod FindingLaws
pub mod ReadCallLaws
pub mod AnswerLaws
pub mod TakingLaws
pub mod WriteCallLaws
