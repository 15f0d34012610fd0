pub mod ErasedBoards
