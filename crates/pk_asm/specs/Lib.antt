pub mod Words
pub mod Form
pub mod Operands
pub mod Line
pub mod Printed
pub mod PrintedWord
