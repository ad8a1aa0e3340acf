pub mod ShapeLaws
mod ExampleShapes
