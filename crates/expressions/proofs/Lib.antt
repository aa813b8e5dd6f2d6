-- Laws of expressions, of their positions, and of the stack of operands that the items build.
pub mod Strings
pub mod Places
pub mod Numbers
pub mod Glushkov
pub mod Operands
pub mod Stack
