pub mod SessionRoom
