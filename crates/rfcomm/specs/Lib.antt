pub mod Pieces
pub mod Replay
pub mod PieceTable
pub mod PieceRows
pub mod Judging
