mod Escapes
mod OwnPieces
mod Pieces
mod Reading
