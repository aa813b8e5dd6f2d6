-- Laws of the printed line.
pub mod Printed
