mod Bindings
mod Taking
