pub mod Examples
pub mod FormsFollow
pub mod ProgramsFollow
pub mod RunLaws
pub mod RunsFollow
pub mod TestLaws
pub mod TickLaws
