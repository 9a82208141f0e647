pub mod FirstLaws
pub mod Putting
pub mod PutLaws
