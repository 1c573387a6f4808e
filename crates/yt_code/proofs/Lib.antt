mod Examples
mod Shapes
mod Ready
mod Tops
