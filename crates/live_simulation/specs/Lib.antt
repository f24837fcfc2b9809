pub mod Refusals
pub mod Happened
pub mod LaneReplies
pub mod Cases
pub mod BoardReplies
pub mod Runs
pub mod Headline
pub mod Steps
