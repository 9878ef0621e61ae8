mod Described
mod Front
mod Lines
mod Texts
