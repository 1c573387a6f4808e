mod printing
