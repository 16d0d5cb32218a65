pub mod PieceRows
pub mod Pieces
pub mod Judging
pub mod Replay
pub mod CoreExamples
