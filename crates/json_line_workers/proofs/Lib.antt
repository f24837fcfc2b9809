mod PlaceLaws
mod NextLaws
mod FiledLaws
pub mod CutLaws
pub mod CallLaws
