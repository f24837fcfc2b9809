pub mod DeskLaws
