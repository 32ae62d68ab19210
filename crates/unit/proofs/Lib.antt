-- Laws of the C interface.
mod Buffers
mod Puts
