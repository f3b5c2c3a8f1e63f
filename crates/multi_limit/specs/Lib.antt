pub mod Follow
pub mod RaiseLaws
pub mod FallLaws
pub mod StrayLaws
pub mod FollowLaws
pub mod PassLaws
pub mod WalkLaws
pub mod StepLaws
